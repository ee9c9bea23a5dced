use Rattle.std.proofs.Common.{ℕ, false, length, sym, ap, ◌∙◌, subst, arith, rules}
use Rattle.std.proofs.lemmas.List.{take-replicate}
use Rattle.assignment.specs.BlockLaws.{Blockwise}
use Rattle.assignment.specs.BlockShares.{State, blocks_of, by_remainder, last_pass, rounds}
use Rattle.assignment.specs.BlockSteps.{Standing}
use Rattle.assignment.specs.declared.block_shares.Terms.{Terms}
use Rattle.assignment.specs.BlockDuties.{floors_stand}
use Rattle.assignment.proofs.BlockRanks.{blocks_blockwise}
use Rattle.assignment.proofs.BlockTurns.{start_written, started}
use Rattle.assignment.proofs.block_shares.BlocksFitRule.ask.Goals as goal

abbrev terms : ℕ → ℕ → ℕ → Terms
terms total block all = record { total = total; block = block; all = all }

pub give_blocks-rest-requires : goal.give_blocks-rest-requires
give_blocks-rest-requires c =
    let ok = c.in_ok-all.ensures in
    let t = terms c.args.ask.total c.args.ask.block c.in_ok-all.all in
    let os = c.args.ask.«open».now in
    let none = take-replicate (length os) 256 false ok.0.sound.few in
    record {
      standing = subst (Standing t os) (sym none) (floors_stand t os (record { sound = ok.0.sound; all_is = ok.1 }));
      written = start_written t os _ _ none c.write_floors-after_floors.ensures.written;
    }

pub returns : goal.returns
returns c =
    let ok = c.in_ok-all.ensures in
    let t = terms c.args.ask.total c.args.ask.block c.in_ok-all.all in
    let os = c.args.ask.«open».now in
    let none = take-replicate (length os) 256 false ok.0.sound.few in
    let is = c.give_rest.ensures
    ∙ ap (λ (st : State). last_pass t st.left os st.held) (c.give_blocks-rest.ensures.rounds ∙ ap (rounds by_remainder t os (length os)) (started t os _ _ c.write_floors-after_floors.ensures.left none))
    ∙ ap (λ sum. blocks_of by_remainder (terms c.args.ask.total c.args.ask.block sum) os) ok.1 in
    record {
      answered = (record { sound = ok.0.sound; roomy = omega arith }, is);
      stays = search rules;
      blockwise = subst (Blockwise c.args.ask.total c.args.ask.block os) (sym is) (blocks_blockwise c.args.ask.total c.args.ask.block os ok.0.sound);
    }
