-- Internal: what the contracts between functions cite. A customer needs
-- `schema_of` of Store.antt alone: how a schema lies in the buffers that are lent.
pub mod Store
