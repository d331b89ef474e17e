use Rattle.tags.proofs.noting.matches_in.Goals as goal

pub returns-in-Type : goal.returns-in-Type
returns-in-Type c = rw (c.in-Type.is, ← c.local_at-local.ensures) c.matches_of-in-Type.ensures

pub returns-in-Enum : goal.returns-in-Enum
returns-in-Enum c = rw (c.in-Enum.is, ← c.local_at-local.ensures) c.matches_of-in-Enum.ensures
