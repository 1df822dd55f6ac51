pub mod Places
mod Moves
mod Displacing
mod Goings
mod Openings
mod OpenFiles
mod Occurring
mod Logs
