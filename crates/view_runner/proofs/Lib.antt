mod Due
mod FirstWords
mod Worked
