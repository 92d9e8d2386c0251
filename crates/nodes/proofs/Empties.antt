-- The table of empty roots: one test, which antt computes over the whole table, that each is the parent of the one before it with itself.
-- Assumes nothing.
use mathlib.Core.Path.{◌≡◌, refl, sym, ap, ap₂, ◌∙◌}
use mathlib.Core.Bool.{Bool, true, ◌&&◌}
use mathlib.Core.List.{List, [], ◌∷◌}
use Prim.Native.Nat.{ℕ, zero, suc, ◌*◌, ◌<◌}
use native.Mathlib.Omega.{arith}
use lib.ListN.{length, get_or, drop}
use Rattle.octets.proofs.BoolLaws.{and_both}
use Rattle.octets.specs.Parts.{field, listed, same}
use Rattle.octets.specs.Numbers.{big, big_bytes}
use Rattle.octets.specs.Rows.{rows_of}
use Rattle.octets.proofs.PartLaws.{same_eq}
use Rattle.octets.proofs.RowLaws.{rows_field, rows_length}
use Rattle.sha256.specs.Compression.{compress_of, compress_from, state_bytes, plus_of, rounds, round_of, turned, T1, T2, k_list, schedule_of, schedule, extended, next_word, word_at, rotr, shr, Ch, Maj, Σ0, Σ1, σ0, σ1}
use Rattle.sha256.proofs.Laws.{compress_length}
use Rattle.nodes.specs.Trees.{empty_at}
use Rattle.nodes.specs.CommitmentTree.{parent_of, empty_leaf, empty_root}

pub parent_length : (l r : List ℕ) → length (parent_of l r) ≡ 32
unfolding parent_of
parent_length l r = compress_length _

unfoldable pub table : List ℕ
table =
    0 ∷ 0 ∷ 0 ∷ 0 ∷ 0 ∷ 0 ∷ 0 ∷ 0 ∷ 0 ∷ 0 ∷ 0 ∷ 0 ∷ 0 ∷ 0 ∷ 0 ∷ 0 ∷ 0 ∷ 0 ∷ 0 ∷ 0 ∷ 0 ∷ 0 ∷ 0 ∷ 0 ∷ 0 ∷ 0 ∷ 0 ∷ 0 ∷ 0 ∷ 0 ∷ 0 ∷ 0 ∷
    218 ∷ 86 ∷ 152 ∷ 190 ∷ 23 ∷ 185 ∷ 180 ∷ 105 ∷ 98 ∷ 51 ∷ 87 ∷ 153 ∷ 119 ∷ 159 ∷ 190 ∷ 202 ∷ 140 ∷ 229 ∷ 212 ∷ 145 ∷ 192 ∷ 210 ∷ 98 ∷ 67 ∷ 186 ∷ 254 ∷ 249 ∷ 234 ∷ 24 ∷ 55 ∷ 169 ∷ 216 ∷
    220 ∷ 118 ∷ 111 ∷ 171 ∷ 73 ∷ 44 ∷ 207 ∷ 61 ∷ 30 ∷ 73 ∷ 212 ∷ 243 ∷ 116 ∷ 181 ∷ 35 ∷ 95 ∷ 165 ∷ 101 ∷ 6 ∷ 170 ∷ 194 ∷ 34 ∷ 77 ∷ 57 ∷ 249 ∷ 67 ∷ 252 ∷ 212 ∷ 146 ∷ 2 ∷ 151 ∷ 76 ∷
    63 ∷ 10 ∷ 64 ∷ 97 ∷ 129 ∷ 16 ∷ 89 ∷ 104 ∷ 253 ∷ 174 ∷ 227 ∷ 6 ∷ 121 ∷ 227 ∷ 39 ∷ 60 ∷ 102 ∷ 183 ∷ 43 ∷ 249 ∷ 167 ∷ 245 ∷ 222 ∷ 187 ∷ 243 ∷ 181 ∷ 160 ∷ 162 ∷ 110 ∷ 53 ∷ 159 ∷ 146 ∷
    38 ∷ 176 ∷ 5 ∷ 38 ∷ 148 ∷ 252 ∷ 66 ∷ 253 ∷ 255 ∷ 147 ∷ 230 ∷ 251 ∷ 90 ∷ 113 ∷ 211 ∷ 140 ∷ 61 ∷ 215 ∷ 220 ∷ 91 ∷ 106 ∷ 215 ∷ 16 ∷ 235 ∷ 4 ∷ 140 ∷ 102 ∷ 2 ∷ 51 ∷ 19 ∷ 127 ∷ 171 ∷
    1 ∷ 9 ∷ 236 ∷ 192 ∷ 114 ∷ 38 ∷ 89 ∷ 255 ∷ 131 ∷ 69 ∷ 11 ∷ 143 ∷ 123 ∷ 136 ∷ 70 ∷ 230 ∷ 123 ∷ 40 ∷ 89 ∷ 243 ∷ 60 ∷ 48 ∷ 217 ∷ 183 ∷ 172 ∷ 213 ∷ 191 ∷ 57 ∷ 202 ∷ 229 ∷ 78 ∷ 49 ∷
    63 ∷ 144 ∷ 155 ∷ 140 ∷ 227 ∷ 215 ∷ 255 ∷ 216 ∷ 165 ∷ 179 ∷ 9 ∷ 8 ∷ 246 ∷ 5 ∷ 160 ∷ 59 ∷ 13 ∷ 184 ∷ 81 ∷ 105 ∷ 85 ∷ 141 ∷ 220 ∷ 29 ∷ 167 ∷ 187 ∷ 188 ∷ 201 ∷ 176 ∷ 159 ∷ 211 ∷ 37 ∷
    64 ∷ 70 ∷ 15 ∷ 166 ∷ 188 ∷ 105 ∷ 42 ∷ 6 ∷ 244 ∷ 117 ∷ 33 ∷ 166 ∷ 114 ∷ 90 ∷ 84 ∷ 124 ∷ 2 ∷ 138 ∷ 106 ∷ 36 ∷ 13 ∷ 132 ∷ 9 ∷ 241 ∷ 101 ∷ 230 ∷ 60 ∷ 181 ∷ 77 ∷ 162 ∷ 210 ∷ 63 ∷
    140 ∷ 8 ∷ 86 ∷ 116 ∷ 36 ∷ 155 ∷ 67 ∷ 218 ∷ 27 ∷ 154 ∷ 49 ∷ 160 ∷ 232 ∷ 32 ∷ 232 ∷ 30 ∷ 117 ∷ 243 ∷ 66 ∷ 128 ∷ 123 ∷ 3 ∷ 182 ∷ 185 ∷ 230 ∷ 73 ∷ 131 ∷ 33 ∷ 123 ∷ 194 ∷ 179 ∷ 142 ∷
    160 ∷ 131 ∷ 69 ∷ 12 ∷ 27 ∷ 162 ∷ 163 ∷ 167 ∷ 190 ∷ 118 ∷ 250 ∷ 217 ∷ 209 ∷ 59 ∷ 195 ∷ 123 ∷ 228 ∷ 191 ∷ 131 ∷ 189 ∷ 62 ∷ 89 ∷ 252 ∷ 55 ∷ 90 ∷ 54 ∷ 186 ∷ 98 ∷ 220 ∷ 98 ∷ 2 ∷ 152 ∷
    29 ∷ 221 ∷ 218 ∷ 188 ∷ 44 ∷ 170 ∷ 45 ∷ 233 ∷ 239 ∷ 249 ∷ 225 ∷ 140 ∷ 140 ∷ 90 ∷ 57 ∷ 64 ∷ 109 ∷ 121 ∷ 54 ∷ 232 ∷ 137 ∷ 188 ∷ 22 ∷ 207 ∷ 171 ∷ 177 ∷ 68 ∷ 245 ∷ 192 ∷ 2 ∷ 38 ∷ 130 ∷
    194 ∷ 45 ∷ 143 ∷ 11 ∷ 94 ∷ 64 ∷ 86 ∷ 229 ∷ 243 ∷ 24 ∷ 186 ∷ 34 ∷ 9 ∷ 28 ∷ 192 ∷ 125 ∷ 181 ∷ 105 ∷ 79 ∷ 190 ∷ 181 ∷ 232 ∷ 126 ∷ 240 ∷ 215 ∷ 226 ∷ 197 ∷ 124 ∷ 163 ∷ 82 ∷ 53 ∷ 158 ∷
    137 ∷ 164 ∷ 52 ∷ 174 ∷ 31 ∷ 235 ∷ 215 ∷ 104 ∷ 126 ∷ 206 ∷ 234 ∷ 33 ∷ 208 ∷ 127 ∷ 32 ∷ 162 ∷ 81 ∷ 36 ∷ 73 ∷ 208 ∷ 140 ∷ 226 ∷ 238 ∷ 229 ∷ 88 ∷ 113 ∷ 205 ∷ 185 ∷ 212 ∷ 108 ∷ 18 ∷ 51 ∷
    115 ∷ 51 ∷ 219 ∷ 255 ∷ 189 ∷ 17 ∷ 240 ∷ 146 ∷ 71 ∷ 162 ∷ 179 ∷ 58 ∷ 1 ∷ 62 ∷ 196 ∷ 196 ∷ 52 ∷ 32 ∷ 41 ∷ 216 ∷ 81 ∷ 226 ∷ 43 ∷ 164 ∷ 133 ∷ 212 ∷ 70 ∷ 24 ∷ 81 ∷ 55 ∷ 12 ∷ 21 ∷
    93 ∷ 173 ∷ 132 ∷ 74 ∷ 185 ∷ 70 ∷ 107 ∷ 112 ∷ 247 ∷ 69 ∷ 19 ∷ 113 ∷ 149 ∷ 202 ∷ 34 ∷ 27 ∷ 72 ∷ 243 ∷ 70 ∷ 171 ∷ 209 ∷ 69 ∷ 251 ∷ 94 ∷ 252 ∷ 35 ∷ 168 ∷ 180 ∷ 186 ∷ 80 ∷ 128 ∷ 34 ∷
    80 ∷ 126 ∷ 13 ∷ 174 ∷ 129 ∷ 203 ∷ 251 ∷ 228 ∷ 87 ∷ 253 ∷ 55 ∷ 14 ∷ 241 ∷ 202 ∷ 66 ∷ 1 ∷ 194 ∷ 182 ∷ 64 ∷ 16 ∷ 131 ∷ 221 ∷ 171 ∷ 68 ∷ 14 ∷ 74 ∷ 3 ∷ 141 ∷ 193 ∷ 227 ∷ 88 ∷ 196 ∷
    189 ∷ 205 ∷ 179 ∷ 41 ∷ 49 ∷ 136 ∷ 201 ∷ 128 ∷ 125 ∷ 128 ∷ 130 ∷ 103 ∷ 1 ∷ 134 ∷ 132 ∷ 207 ∷ 236 ∷ 224 ∷ 122 ∷ 195 ∷ 90 ∷ 66 ∷ 192 ∷ 15 ∷ 44 ∷ 121 ∷ 180 ∷ 0 ∷ 56 ∷ 37 ∷ 48 ∷ 93 ∷
    186 ∷ 181 ∷ 128 ∷ 9 ∷ 114 ∷ 161 ∷ 108 ∷ 44 ∷ 34 ∷ 83 ∷ 12 ∷ 102 ∷ 6 ∷ 109 ∷ 10 ∷ 88 ∷ 103 ∷ 233 ∷ 135 ∷ 190 ∷ 210 ∷ 26 ∷ 109 ∷ 90 ∷ 69 ∷ 11 ∷ 104 ∷ 60 ∷ 241 ∷ 207 ∷ 215 ∷ 9 ∷
    17 ∷ 170 ∷ 11 ∷ 74 ∷ 210 ∷ 155 ∷ 19 ∷ 176 ∷ 87 ∷ 163 ∷ 22 ∷ 25 ∷ 214 ∷ 80 ∷ 13 ∷ 99 ∷ 108 ∷ 215 ∷ 53 ∷ 205 ∷ 208 ∷ 125 ∷ 129 ∷ 30 ∷ 162 ∷ 101 ∷ 236 ∷ 75 ∷ 203 ∷ 187 ∷ 208 ∷ 88 ∷
    81 ∷ 69 ∷ 177 ∷ 176 ∷ 85 ∷ 194 ∷ 223 ∷ 2 ∷ 185 ∷ 86 ∷ 117 ∷ 227 ∷ 121 ∷ 123 ∷ 145 ∷ 222 ∷ 27 ∷ 132 ∷ 109 ∷ 37 ∷ 0 ∷ 60 ∷ 10 ∷ 128 ∷ 61 ∷ 8 ∷ 144 ∷ 7 ∷ 40 ∷ 242 ∷ 205 ∷ 106 ∷
    3 ∷ 35 ∷ 242 ∷ 133 ∷ 11 ∷ 243 ∷ 68 ∷ 79 ∷ 75 ∷ 76 ∷ 92 ∷ 9 ∷ 166 ∷ 5 ∷ 126 ∷ 199 ∷ 22 ∷ 145 ∷ 144 ∷ 244 ∷ 90 ∷ 203 ∷ 158 ∷ 70 ∷ 152 ∷ 74 ∷ 179 ∷ 223 ∷ 206 ∷ 196 ∷ 240 ∷ 106 ∷
    103 ∷ 21 ∷ 70 ∷ 226 ∷ 107 ∷ 29 ∷ 161 ∷ 175 ∷ 117 ∷ 69 ∷ 49 ∷ 226 ∷ 109 ∷ 138 ∷ 106 ∷ 81 ∷ 7 ∷ 58 ∷ 87 ∷ 221 ∷ 215 ∷ 45 ∷ 196 ∷ 114 ∷ 239 ∷ 180 ∷ 63 ∷ 203 ∷ 37 ∷ 124 ∷ 255 ∷ 255 ∷
    187 ∷ 35 ∷ 169 ∷ 187 ∷ 165 ∷ 109 ∷ 229 ∷ 124 ∷ 178 ∷ 132 ∷ 176 ∷ 210 ∷ 176 ∷ 28 ∷ 100 ∷ 44 ∷ 247 ∷ 156 ∷ 154 ∷ 85 ∷ 99 ∷ 240 ∷ 6 ∷ 122 ∷ 33 ∷ 41 ∷ 36 ∷ 18 ∷ 20 ∷ 91 ∷ 215 ∷ 138 ∷
    243 ∷ 12 ∷ 200 ∷ 54 ∷ 185 ∷ 247 ∷ 27 ∷ 78 ∷ 126 ∷ 227 ∷ 199 ∷ 43 ∷ 31 ∷ 210 ∷ 83 ∷ 38 ∷ 138 ∷ 249 ∷ 162 ∷ 126 ∷ 157 ∷ 114 ∷ 145 ∷ 162 ∷ 61 ∷ 2 ∷ 130 ∷ 27 ∷ 33 ∷ 221 ∷ 253 ∷ 22 ∷
    88 ∷ 162 ∷ 117 ∷ 61 ∷ 173 ∷ 225 ∷ 3 ∷ 206 ∷ 203 ∷ 205 ∷ 165 ∷ 11 ∷ 94 ∷ 191 ∷ 206 ∷ 49 ∷ 225 ∷ 45 ∷ 65 ∷ 213 ∷ 132 ∷ 29 ∷ 204 ∷ 149 ∷ 98 ∷ 15 ∷ 123 ∷ 61 ∷ 80 ∷ 161 ∷ 185 ∷ 161 ∷
    146 ∷ 94 ∷ 109 ∷ 71 ∷ 74 ∷ 93 ∷ 141 ∷ 48 ∷ 4 ∷ 242 ∷ 157 ∷ 160 ∷ 221 ∷ 120 ∷ 211 ∷ 10 ∷ 227 ∷ 130 ∷ 76 ∷ 231 ∷ 157 ∷ 254 ∷ 73 ∷ 52 ∷ 187 ∷ 41 ∷ 236 ∷ 58 ∷ 250 ∷ 243 ∷ 213 ∷ 33 ∷
    8 ∷ 242 ∷ 121 ∷ 97 ∷ 134 ∷ 22 ∷ 188 ∷ 221 ∷ 78 ∷ 173 ∷ 201 ∷ 199 ∷ 169 ∷ 6 ∷ 38 ∷ 145 ∷ 165 ∷ 155 ∷ 67 ∷ 176 ∷ 126 ∷ 44 ∷ 30 ∷ 35 ∷ 127 ∷ 23 ∷ 189 ∷ 24 ∷ 156 ∷ 214 ∷ 168 ∷ 254 ∷
    201 ∷ 43 ∷ 50 ∷ 219 ∷ 66 ∷ 244 ∷ 46 ∷ 43 ∷ 240 ∷ 165 ∷ 157 ∷ 249 ∷ 5 ∷ 91 ∷ 229 ∷ 198 ∷ 105 ∷ 211 ∷ 36 ∷ 45 ∷ 244 ∷ 83 ∷ 87 ∷ 101 ∷ 155 ∷ 117 ∷ 174 ∷ 44 ∷ 39 ∷ 167 ∷ 111 ∷ 80 ∷
    192 ∷ 219 ∷ 42 ∷ 116 ∷ 153 ∷ 140 ∷ 80 ∷ 235 ∷ 123 ∷ 166 ∷ 83 ∷ 79 ∷ 109 ∷ 65 ∷ 14 ∷ 252 ∷ 39 ∷ 196 ∷ 187 ∷ 136 ∷ 172 ∷ 176 ∷ 34 ∷ 44 ∷ 121 ∷ 6 ∷ 234 ∷ 40 ∷ 163 ∷ 39 ∷ 181 ∷ 17 ∷
    215 ∷ 198 ∷ 18 ∷ 200 ∷ 23 ∷ 121 ∷ 49 ∷ 145 ∷ 161 ∷ 230 ∷ 134 ∷ 82 ∷ 18 ∷ 24 ∷ 118 ∷ 214 ∷ 179 ∷ 189 ∷ 228 ∷ 15 ∷ 79 ∷ 165 ∷ 43 ∷ 195 ∷ 20 ∷ 20 ∷ 92 ∷ 230 ∷ 229 ∷ 205 ∷ 210 ∷ 89 ∷ []

-- each row is the parent of the one before it with itself
chained : List ℕ → List (List ℕ) → Bool
chained x [] = true
chained x (y ∷ l) = same (parent_of x x) y && chained y l

grows : (k : ℕ) (e : List ℕ) → empty_at parent_of (parent_of e e) k ≡ empty_at parent_of e (suc k)
unfolding empty_at
grows zero e = refl
grows (suc k) e = ap₂ parent_of (grows k e) (grows k e)

chained_at : (k : ℕ) (x : List ℕ) (l : List (List ℕ)) → chained x l ≡ true → k < suc (length l) → get_or (x ∷ l) k [] ≡ empty_at parent_of x k
unfolding chained empty_at
chained_at zero x l c h = refl
chained_at (suc k) x [] c h = absurd (omega arith)
chained_at (suc k) x (y ∷ l) c h =
    let b = and_both (same (parent_of x x) y) (chained y l) c in
    chained_at k y l b.1 (omega arith) ∙ ap (λ (e : List ℕ). empty_at parent_of e k) (sym (same_eq (parent_of x x) y b.0)) ∙ grows k x

-- the test
chain : chained empty_leaf (rows_of 29 (drop 32 table)) ≡ true
unfolding chained table empty_leaf rows_of same parent_of compress_of compress_from state_bytes plus_of rounds round_of turned T1 T2 k_list schedule_of schedule extended next_word word_at rotr shr Ch Maj Σ0 Σ1 σ0 σ1 listed field big big_bytes
chain = refl

table_long : 960 ≡ length table
unfolding table
table_long = refl

table_rows : rows_of 30 table ≡ empty_leaf ∷ rows_of 29 (drop 32 table)
unfolding rows_of table empty_leaf
table_rows = refl

-- row k of the table is the empty root of level k
pub table_at : (k : ℕ) → k < 30 → field (k * 32) 32 table ≡ empty_root k
unfolding empty_root
table_at k h =
    sym (rows_field 30 k table h (omega (arith, table_long))) ∙ ap (λ (l : List (List ℕ)). get_or l k []) table_rows
    ∙ chained_at k empty_leaf (rows_of 29 (drop 32 table)) chain (omega (arith, rows_length 29 (drop 32 table)))
