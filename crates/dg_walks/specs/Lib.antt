-- What the contracts cite.
pub mod Laws
