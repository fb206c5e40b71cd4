mod Replying
mod Lengths
mod Outs
mod Summing
mod Filling
