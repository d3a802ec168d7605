pub mod Meaning
pub mod Numeral
pub mod Banked
pub mod NumeralLaws
pub mod DecimalLaws
pub mod BankLaws
