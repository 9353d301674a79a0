-- What the parts of the square root's code say to each other; no promise of the crate cites it. Definitions only.
use Rattle.std.specs.Prelude.{◌≡◌, ℕ, ◌+◌, ◌-◌, ◌*◌, ◌/◌, ◌%◌, ◌^◌, ◌<◌, ◌≤◌}

-- q is the whole number nearest to √n: (q - 1/2)² < n < (q + 1/2)²
abbrev pub Near : ℕ → ℕ → Type 0
Near n q = (q * q < n + q) × (n ≤ q * q + q)

-- the units of the number above zero whose pattern is b: a field of 0 counts as a field of 1, and has no leading digit
abbrev pub pattern_units : ℕ → ℕ
pattern_units b = (b - (b / 2 ^ 52 - 1) * 2 ^ 52) * 2 ^ (b / 2 ^ 52 - 1)

-- v, which may have wrapped below 0, is x less y
abbrev pub Differ : ℕ → ℕ → ℕ → Type 0
Differ x y v = (v < 2 ^ 63 → x ≡ y + v) × (2 ^ 63 ≤ v → x + 2 ^ 64 ≡ y + v)

-- over is what q * (q + 1) is above m * 2 ^ 42
abbrev pub Above : ℕ → ℕ → ℕ → Type 0
Above m q over = Differ (q * (q + 1)) (m * 2 ^ 42) over

-- g has 53 digits, and its square is near m * 2 ^ 42
abbrev pub Close : ℕ → ℕ → Type 0
Close m g = (2 ^ 52 ≤ g) × (g < 2 ^ 53) × (g * g ≤ m * 2 ^ 42 + 2 ^ 58) × (m * 2 ^ 42 ≤ g * g + 2 ^ 58)

-- a normal number whose pattern is b is this many times 2 ^ 52 and an even power of two
abbrev pub radicand : ℕ → ℕ
radicand b = (b - (b / 2 ^ 52 - 1) * 2 ^ 52) * ((b / 2 ^ 52 - 1) % 2 + 1)

-- the root of that number, in units, is a whole number of 53 digits times 2 to this power
abbrev pub exponent : ℕ → ℕ
exponent b = (b + 2 ^ 52) / 2 ^ 53 + 510

-- 2 ^ 1074 times the units of the number whose root is 2 ^ up times smaller than that of the one whose pattern is b
abbrev pub form_radicand : ℕ → ℕ → ℕ
form_radicand b up = radicand b * 2 ^ 52 * 2 ^ (2 * (exponent b - up))

-- the number whose pattern is b has the digits of the normal one whose pattern is f, and a root 2 ^ up times smaller
abbrev pub Formed : ℕ → ℕ → ℕ → Type 0
Formed b f up =
    (2 ^ 52 ≤ f) × (f < 0x7ff0_0000_0000_0000) × (up ≤ 256) × (pattern_units b * 2 ^ 1074 ≡ form_radicand f up)
