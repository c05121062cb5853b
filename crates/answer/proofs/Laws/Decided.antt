-- What a search is handed for an answer that the tests on the way decide. Assumes nothing.
use borrow.Author.Rules.{rules}
use borrow.Author.Tests.{eq-eqb, ne_eqb, lt-ltb, le-ltb, le-leb, lt-leb}

pub ruleset decided = (rules, eq-eqb, ne_eqb, lt-ltb, le-ltb, le-leb, lt-leb)
