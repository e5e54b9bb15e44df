mod Members
mod Generating
mod Giving
mod Storing
