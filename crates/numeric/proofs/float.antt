-- Signs: std's are those of specs/ (`Signs`), and a number's sign is its highest bit (`SignBit`).
pub mod Signs
pub mod SignBit
