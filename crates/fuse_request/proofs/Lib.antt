mod Rows
pub mod AfterLaws
