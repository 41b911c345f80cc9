-- Names as lists of labels (RFC 1035, 3.1), and their orders (RFC 4034, 6.1).
pub mod Labels
pub mod NameOrder
pub mod NameOrderLaws
pub mod Parents
pub mod Storage
pub mod StoredLabels
