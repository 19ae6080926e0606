-- What the proofs of the tables share.
mod Tables
