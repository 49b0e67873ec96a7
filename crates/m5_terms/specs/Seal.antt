-- What begins every message of a session.
use Rattle.std.specs.Prelude.{ℕ, List, ◌++◌, codes}
use Rattle.std.specs.Int.{to_be_bytes, w32}

-- four fixed bytes, then the session's number, its high byte first
abbrev pub seal_bytes : ℕ → List ℕ
seal_bytes session = codes "ML5s" ++ to_be_bytes w32 session
