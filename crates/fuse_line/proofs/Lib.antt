pub mod FilteredOrder
mod Views
mod Alone
mod Keeps
mod Origins
