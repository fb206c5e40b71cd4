-- Two operators with helpers, as trees, to see what the definitions say of them.
use Rattle.std.specs.Prelude.{ℕ, List, [], ◌∷◌}
use Rattle.pld_base.specs.declared.event.Place.{Place}
use Rattle.pld_base.specs.declared.event.Side.TheVariants as side
use Rattle.pld_ast.specs.declared.tree.Used.{Used}
use Rattle.pld_ast.specs.declared.tree.Scalar.{Scalar}
use Rattle.pld_ast.specs.declared.tree.Ty.TheVariants.{Int}
use Rattle.pld_ast.specs.declared.tree.BinOp.TheVariants as bin
use Rattle.pld_ast.specs.declared.tree.Expr.TheVariants.{Lit, Var, Binary}
use Rattle.pld_ast.specs.declared.tree.Target.TheVariants as target
use Rattle.pld_call.specs.declared.tree.Stmt.TheVariants as stmt
use Rattle.pld_call.specs.declared.tree.Operator.{Operator}

-- a place, of which nothing depends here
abbrev pub somewhere : Place
somewhere = record { line = 1; column = 1 }

-- a name of one letter, where it is used
abbrev pub used : ℕ → Used
used letter = record { name = letter ∷ []; at = somewhere }

-- an `int32_t` of one letter
abbrev pub scalar : ℕ → Scalar
scalar letter = record { name = letter ∷ []; ty = Int; at = somewhere }

-- int32_t g() { int32_t n; n++; return n; }
-- void f(out b) { int32_t x; x = g(); write(b, x); x = g(); write(b, x); }
abbrev pub calls_twice : Operator
calls_twice = record {
  name = 102 ∷ [];
  at = somewhere;
  helpers = (record {
    name = 103 ∷ [];
    ty = Int;
    params = [];
    locals = scalar 110 ∷ [];
    body = stmt.Assign (target.Scalar (used 110)) (Binary bin.Add (Var (used 110)) (Lit 1 Int)) ∷ [];
    result = Var (used 110);
    at = somewhere;
  }) ∷ [];
  ports = (record { name = 98 ∷ []; side = side.Out; at = somewhere }) ∷ [];
  scalars = scalar 120 ∷ [];
  arrays = [];
  body =
      stmt.Call (target.Scalar (used 120)) (used 103) []
      ∷ stmt.Write (used 98) (Var (used 120))
      ∷ stmt.Call (target.Scalar (used 120)) (used 103) []
      ∷ stmt.Write (used 98) (Var (used 120))
      ∷ [];
}

-- int32_t c(int32_t x, int32_t m) { int32_t y = x; if (x > m) { y = m; } return y; }
-- void f(in a, out b) { int32_t v; while (1) { v = read(a); v = c(v, 10); write(b, v); } }
abbrev pub clips : Operator
clips = record {
  name = 102 ∷ [];
  at = somewhere;
  helpers = (record {
    name = 99 ∷ [];
    ty = Int;
    params = scalar 120 ∷ scalar 109 ∷ [];
    locals = scalar 121 ∷ [];
    body =
        stmt.Assign (target.Scalar (used 121)) (Var (used 120))
        ∷ stmt.If (Binary bin.Gt (Var (used 120)) (Var (used 109))) (stmt.Assign (target.Scalar (used 121)) (Var (used 109)) ∷ []) []
        ∷ [];
    result = Var (used 121);
    at = somewhere;
  }) ∷ [];
  ports = (record { name = 97 ∷ []; side = side.In; at = somewhere }) ∷ (record { name = 98 ∷ []; side = side.Out; at = somewhere }) ∷ [];
  scalars = scalar 118 ∷ [];
  arrays = [];
  body =
      stmt.While (Lit 1 Int)
      (stmt.Read (target.Scalar (used 118)) (used 97)
      ∷ stmt.Call (target.Scalar (used 118)) (used 99) (Var (used 118) ∷ Lit 10 Int ∷ [])
      ∷ stmt.Write (used 98) (Var (used 118))
      ∷ [])
      ∷ [];
}

-- 3, 12 and -4 at each in-port
abbrev pub three_words : ℕ → List ℕ
three_words p = 3 ∷ 12 ∷ 4294967292 ∷ []

abbrev pub no_words : ℕ → List ℕ
no_words p = []
