mod Caps
mod Names
mod Words
mod Taken
mod Fields
mod Stacked
mod Scripted
