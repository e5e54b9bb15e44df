pub mod Blank
pub mod KeeperOnly
