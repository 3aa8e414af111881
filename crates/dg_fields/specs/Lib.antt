-- What the contracts cite.
pub mod Places
