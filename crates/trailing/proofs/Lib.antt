mod Mixed
mod Moves
