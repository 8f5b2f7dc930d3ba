mod Appended
mod Pairs
mod Written
