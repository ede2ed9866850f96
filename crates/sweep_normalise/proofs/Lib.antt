mod NormaliseLaws
