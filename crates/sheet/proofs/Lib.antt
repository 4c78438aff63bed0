mod Fresh
mod Sectioning
mod Reading
mod Opening
mod Newlines
mod Filling
mod Rightly
