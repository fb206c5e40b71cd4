-- Numbers with a sign, and the ranges of the numbers that stand in an instruction.
use Rattle.std.specs.Prelude.{◌≡◌, ◌≤◌, ◌%◌, ◌≤ℤ◌, ℕ, ℤ, pos, negsuc}

-- a multiple of two; negsuc n is -1 - n
abbrev pub IsEven : ℤ → Type 0
IsEven (pos n) = n % 2 ≡ 0
IsEven (negsuc n) = n % 2 ≡ 1

-- a register or a shift: from 0 to 31
abbrev pub IsReg : ℕ → Type 0
IsReg n = n ≤ 31

-- 12 bits with a sign: from -2048 to 2047
pub record IsImm (z : ℤ) : Type 0 where
  pub low : negsuc 2047 ≤ℤ z
  pub high : z ≤ℤ pos 2047

-- 20 bits without a sign
abbrev pub IsUpper : ℕ → Type 0
IsUpper n = n ≤ 1048575

-- a branch's offset: even, from -4096 to 4094
pub record IsNear (z : ℤ) : Type 0 where
  pub low : negsuc 4095 ≤ℤ z
  pub high : z ≤ℤ pos 4094
  pub even : IsEven z

-- a jump's offset: even, from -1048576 to 1048574
pub record IsFar (z : ℤ) : Type 0 where
  pub low : negsuc 1048575 ≤ℤ z
  pub high : z ≤ℤ pos 1048574
  pub even : IsEven z
