-- The intervals of the equal path: what code keeps of them, and what it means. A module uses those above it.
pub mod Bounds
pub mod States
pub mod Told
pub mod Fill
pub mod Run
