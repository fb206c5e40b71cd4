-- An operator with its names looked up: scalars, arrays and ports by number, in declaration order, and
-- each operation with the signs that its operands' types give it.
use Rattle.std.specs.Prelude.{ℕ, List}

pub data Sign : Type 0 where
  Signed : Sign
  Unsigned : Sign

-- `Keep` is the prefix plus, and a cast: it leaves its operand as it is
pub data Operation1 : Type 0 where
  Keep : Operation1
  Negate : Operation1
  Flip : Operation1
  IsZero : Operation1

pub data Operation2 : Type 0 where
  EitherOf : Operation2
  BothOf : Operation2
  BitOr : Operation2
  BitXor : Operation2
  BitAnd : Operation2
  Equal : Operation2
  Unequal : Operation2
  Less : Sign → Operation2
  AtMost : Sign → Operation2
  More : Sign → Operation2
  AtLeast : Sign → Operation2
  ShiftLeft : Operation2
  ShiftRight : Sign → Operation2
  Plus : Operation2
  Minus : Operation2
  Times : Operation2
  Quotient : Sign → Operation2
  Remainder : Sign → Operation2

-- a value: a number, a scalar, an element of an array, an operation
pub data Value : Type 0 where
  Number : ℕ → Value
  Scalar : ℕ → Value
  Element : ℕ → Value → Value
  Op1 : Operation1 → Value → Value
  Op2 : Operation2 → Value → Value → Value

-- an action; a list of statements is a chain by Then that ends in Skip
pub data Action : Type 0 where
  Skip : Action
  Then : Action → Action → Action
  Assign : ℕ → Value → Action
  Store : ℕ → Value → Value → Action
  Read : ℕ → ℕ → Action
  ReadInto : ℕ → Value → ℕ → Action
  Write : ℕ → Value → Action
  Choose : Value → Action → Action → Action
  Repeat : Value → Action → Action
  Return : Action

pub record Program : Type 0 where
  pub ins : ℕ
  pub outs : ℕ
  pub scalars : ℕ
  pub lengths : List ℕ
  pub body : Action
