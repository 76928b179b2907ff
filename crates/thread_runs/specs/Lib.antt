pub mod Threads
