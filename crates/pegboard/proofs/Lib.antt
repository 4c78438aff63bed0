mod Counting
mod Keeping
mod Listed
