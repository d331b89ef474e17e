use Rattle.tags.proofs.Coding.{codes-schema, codes-type, codes-enum, codes-other}
use Rattle.tags.proofs.known.codes_of.Goals as goal

pub returns-in-MessageSchema-clause-are : goal.returns-in-MessageSchema-clause-are
returns-in-MessageSchema-clause-are c = codes-schema c.in-MessageSchema.is

pub returns-in-Type-clause-are : goal.returns-in-Type-clause-are
returns-in-Type-clause-are c = codes-type c.in-Type.is

pub returns-in-Enum-clause-are : goal.returns-in-Enum-clause-are
returns-in-Enum-clause-are c = codes-enum c.in-Enum.is

pub returns-in_default-clause-are : goal.returns-in_default-clause-are
returns-in_default-clause-are c = codes-other c.in_default.not-MessageSchema c.in_default.not-Type c.in_default.not-Enum
