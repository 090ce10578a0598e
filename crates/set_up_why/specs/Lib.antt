-- The slots that break each limit of set-up (`breaks`), and what is told of them (`why_of`).
pub mod Why
