-- What the loops of the greedy rule keep: the keys, the search for a period, what a call tells by an Option.
pub mod Keys
pub mod Search
