-- The laws of hashes that the proofs of functions cite, in one set: `search hashing` at each goal.
use borrow.Author.Rules.{rules}
use Rattle.texts.proofs.Pieces.{byte_past}
use Rattle.index.proofs.Hashing.{short-four, short_none, short-some, mix-is, hashing-start, hashing-on, hashing-end, narrowed-is, hash-short, hash-long, masked-many, masked-few, head-is}

pub ruleset hashing = (byte_past, short-four, short_none, short-some, mix-is, hashing-start, hashing-on, hashing-end, narrowed-is, hash-short, hash-long, masked-many, masked-few, head-is, rules)
