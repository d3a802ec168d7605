pub mod Offer
pub mod Pipes
pub mod Mailboxes
