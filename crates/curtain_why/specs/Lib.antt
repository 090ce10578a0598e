-- The slots that break each limit of a curtain's station (`breaks`), and what is told of them (`why_of`).
pub mod Why
