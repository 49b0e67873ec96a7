mod Growing
mod Adding
mod Ending
mod Entering
