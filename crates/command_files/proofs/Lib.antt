mod Containers
mod FirstWords
mod Taken
mod Worked
