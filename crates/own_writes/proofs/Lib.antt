pub mod Tablets
pub mod Numbers
pub mod LastWord
pub mod Rising
pub mod NextRow
pub mod Index
