mod Closing
mod Steps
mod Texts
mod Speaking
mod Claims
mod Tuples
