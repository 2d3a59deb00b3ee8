pub mod Begins
pub mod Taken
pub mod Origins
