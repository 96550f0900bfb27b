-- docs/RULES.md, "Numbers": the limits, each by name, here and nowhere else in the definitions. No proof depends on their number.
use Rattle.std.specs.Prelude.{ℕ}

-- Jobs 1 to 32.
abbrev pub max_jobs : ℕ
max_jobs = 32

-- Resources 0 to 8.
abbrev pub max_resources : ℕ
max_resources = 8

-- Units of a resource 1 to 1,000.
abbrev pub max_units : ℕ
max_units = 1000

-- Level 1 to 255.
abbrev pub max_level : ℕ
max_level = 255

-- Frame (a job's stack bytes) and stack size 1 to 65,535.
abbrev pub max_bytes : ℕ
max_bytes = 65535
