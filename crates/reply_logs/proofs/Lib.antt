mod Steps
mod Worked
