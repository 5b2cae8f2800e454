mod Refusals
mod exactness
mod loops
