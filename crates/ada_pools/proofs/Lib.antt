pub mod Totals
pub mod Tables
pub mod Holding
pub mod Views
