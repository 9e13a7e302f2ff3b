-- What the proof of the tests on two tables of needs cites.
pub mod Laws
