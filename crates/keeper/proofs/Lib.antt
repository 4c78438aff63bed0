mod Telling
mod Writing
mod Keeping
mod Saying
