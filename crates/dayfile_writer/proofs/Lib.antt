-- Laws of a run of stores, as the writer makes them.
mod Stores
