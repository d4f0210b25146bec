pub mod Asked
pub mod Filled
pub mod HandedIn
pub mod Numbered
pub mod Referring
pub mod Texts
pub mod Workbook
