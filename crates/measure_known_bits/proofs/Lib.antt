mod Taking
mod Steps
mod Rooms
