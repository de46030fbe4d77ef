mod Loops
mod Grown
mod Written
