mod Settling
mod Enumerating
mod Pegging
mod Checking
mod Working
