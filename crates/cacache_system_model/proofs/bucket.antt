mod Parts
mod Places
mod Moments
mod Runs
mod Lookups
mod Names
mod Writes
mod Cases
