pub mod Event
pub mod Refusal
pub mod Checks
pub mod Entry
pub mod LineEnd
pub mod Memory
