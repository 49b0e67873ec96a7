mod Growing
mod Programs
