mod Rooms
mod Dues
mod Walks
mod Hears
mod Conflicts
