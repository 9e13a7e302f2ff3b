-- What a C program sees of the library's calls.
pub mod Shows
