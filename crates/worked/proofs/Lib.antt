mod Reached
mod Worked
