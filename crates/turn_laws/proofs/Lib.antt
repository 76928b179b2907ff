mod Few
mod Known
mod Standing
mod OneTurn
mod Begun
mod More
