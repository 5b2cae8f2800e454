-- What a module imports and exports.
pub mod Types
pub mod Listings
